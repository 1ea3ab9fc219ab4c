pub mod Ranges
pub mod Pieces
pub mod Covering
