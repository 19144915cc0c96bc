pub mod Emit
pub mod Feed
pub mod Fill
