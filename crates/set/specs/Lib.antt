pub mod Answers
pub mod Made
pub mod Values
pub mod Taking
pub mod Judge
pub mod Fill
pub mod Piece
