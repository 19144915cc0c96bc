pub mod Moving
pub mod Packing
pub mod Look
pub mod Seek
pub mod Leaving
pub mod Standing
pub mod Listing
