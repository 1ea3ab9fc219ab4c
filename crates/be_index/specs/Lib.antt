pub mod IdBits
pub mod Ids
pub mod Names
pub mod Puts
pub mod Promise
pub mod Rows
