pub mod Reading
pub mod Trips
pub mod OneRecord
pub mod Playings
