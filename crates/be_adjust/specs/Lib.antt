pub mod Fits
pub mod Finds
pub mod Shifts
