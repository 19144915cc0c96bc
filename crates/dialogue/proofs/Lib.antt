pub mod Emitting
pub mod Filling
pub mod Gathering
pub mod Telling
