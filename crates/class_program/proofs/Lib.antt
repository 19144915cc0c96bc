pub mod Chain
pub mod Passing
