pub mod Kind
pub mod Part
pub mod Given
pub mod Family
pub mod Shown
