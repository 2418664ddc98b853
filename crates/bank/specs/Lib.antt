pub mod Meaning
pub mod Tables
pub mod Layouts
pub mod ReloadEntries
pub mod ReloadRows
