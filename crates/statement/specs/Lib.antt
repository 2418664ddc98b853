pub mod Sights
pub mod Told
pub mod Phrases
pub mod Words
pub mod Counts
pub mod Tables
