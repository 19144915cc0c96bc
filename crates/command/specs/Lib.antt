pub mod View
pub mod Answer
pub mod Numbered
