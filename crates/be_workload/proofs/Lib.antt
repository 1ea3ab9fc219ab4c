pub mod Plain
pub mod Attributes
pub mod Ops
pub mod Conditions
pub mod Items
pub mod Lines
pub mod Scripts
