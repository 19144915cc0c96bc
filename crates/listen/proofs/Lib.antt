pub mod Heeding
pub mod Hearing
