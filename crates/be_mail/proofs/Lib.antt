pub mod Places
pub mod Senders
pub mod Moves
pub mod Hands
pub mod Rows
pub mod Sums
pub mod AllPut
