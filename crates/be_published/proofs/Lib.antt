pub mod Adding
pub mod Pending
mod Trails
mod Openings
mod CoreReads
