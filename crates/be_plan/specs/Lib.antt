pub mod Plan
pub mod Best
pub mod Merges
pub mod Shifts
pub mod Splits
pub mod Law
pub mod Looks
