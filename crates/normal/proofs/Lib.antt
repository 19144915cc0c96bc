pub mod Piece
pub mod Record
pub mod Judged
pub mod Lent
pub mod RoundTrips
