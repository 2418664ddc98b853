pub mod Sizes
pub mod CoreSets
pub mod Pages
pub mod Flat
pub mod Faults
