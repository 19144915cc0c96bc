pub mod Asking
pub mod Heading
pub mod First
