pub mod Cutting
pub mod Gathering
pub mod Emitting
pub mod Filling
