pub mod Histories
pub mod Notes
pub mod States
pub mod Reads
pub mod Copies
pub mod Core
