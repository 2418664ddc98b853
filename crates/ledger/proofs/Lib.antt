pub mod Folding
pub mod Rooms
pub mod Sums
