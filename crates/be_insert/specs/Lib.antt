pub mod Filled
pub mod Refusals
pub mod Rooms
pub mod Ways
