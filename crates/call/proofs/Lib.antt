pub mod Calling
pub mod Leading
