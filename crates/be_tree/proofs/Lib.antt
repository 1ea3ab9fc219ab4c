pub mod Gathering
pub mod Mapped
