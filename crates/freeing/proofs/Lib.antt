pub mod Calls
pub mod Intake
pub mod Standing
pub mod Records
