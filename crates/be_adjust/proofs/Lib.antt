pub mod Fitting
pub mod Others
pub mod Merged
pub mod Finding
pub mod Cancelled
pub mod Shifted
pub mod NodeRows
