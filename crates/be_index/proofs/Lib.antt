pub mod Adding
pub mod IdBits
pub mod Maps
pub mod Searches
