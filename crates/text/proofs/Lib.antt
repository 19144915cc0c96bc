pub mod Place
pub mod Digits
pub mod Quote
pub mod Written
pub mod Content
pub mod Padded
