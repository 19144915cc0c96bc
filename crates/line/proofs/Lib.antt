pub mod Control
pub mod Letters
pub mod Chain
pub mod Item
pub mod Given
pub mod Whole
pub mod Filing
pub mod Unique
