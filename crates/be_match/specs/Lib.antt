pub mod Leaves
pub mod Ahead
