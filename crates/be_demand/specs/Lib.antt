pub mod Texts
pub mod Demand
pub mod Counts
pub mod Whole
pub mod Jobs
