pub mod Walk
pub mod Asked
pub mod Sound
pub mod Plan
pub mod Ending
pub mod Noting
