pub mod Seats
pub mod Counted
