pub mod Opening
pub mod Passing
pub mod Mapping
pub mod Beginning
pub mod Firsts
