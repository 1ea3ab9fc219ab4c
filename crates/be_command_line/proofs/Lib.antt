pub mod Rules
pub mod Rows
pub mod Classes
pub mod Stepping
pub mod Ending
pub mod Parsed
pub mod Unknown
