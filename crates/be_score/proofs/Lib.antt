pub mod BestSoFar
pub mod Gains
pub mod Widths
pub mod Choosing
pub mod Tallying
pub mod Examples
pub mod Picks
