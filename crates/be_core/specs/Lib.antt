pub mod Acts
pub mod World
pub mod Memory
pub mod Sessions
