pub mod Reporting
pub mod Saying
