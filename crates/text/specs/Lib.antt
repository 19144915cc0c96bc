pub mod Place
pub mod Write
