pub mod Feeders
pub mod Asked
pub mod Legal
pub mod Sessions
pub mod Reading
pub mod Serving
pub mod Feeding
pub mod Links
