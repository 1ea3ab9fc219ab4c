pub mod Pairs
mod MarkedBits
mod Blocks
pub mod Filed
mod KeyBytes
pub mod Firsts
pub mod SoFar
pub mod Kept
mod HitIds
mod InOrder
mod TailChanges
mod TextRuns
