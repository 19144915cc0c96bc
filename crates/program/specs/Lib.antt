pub mod Pass
pub mod Chain
