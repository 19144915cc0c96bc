pub mod Held
pub mod Judge
pub mod Name
pub mod Outcome
