pub mod Records
pub mod Slots
pub mod States
pub mod View
