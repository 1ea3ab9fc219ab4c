pub mod Drawing
pub mod Workload
pub mod Asked
