pub mod Barring
pub mod Reading
