pub mod Gap
pub mod Packed
pub mod Lent
