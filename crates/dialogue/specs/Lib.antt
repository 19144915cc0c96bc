pub mod Emit
pub mod Fill
pub mod Tell
pub mod Waiting
