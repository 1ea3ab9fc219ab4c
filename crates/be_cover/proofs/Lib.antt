pub mod Holding
pub mod Rising
pub mod Least
pub mod Turns
pub mod Allowing
pub mod Assigning
pub mod Satisfying
pub mod Telling
