pub mod Standing
pub mod Printed
pub mod Answering
