pub mod Faults
pub mod Feeds
pub mod Followers
pub mod Stands
pub mod Placing
pub mod Laws
pub mod Asked
pub mod Reads
