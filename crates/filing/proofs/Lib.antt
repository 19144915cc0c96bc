pub mod Plotted
pub mod Collecting
pub mod Finding
pub mod Clearing
pub mod Filing
pub mod Bare
