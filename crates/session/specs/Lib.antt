pub mod Memory
pub mod Outcome
