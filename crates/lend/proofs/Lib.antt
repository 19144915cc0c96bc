pub mod Seating
