pub mod Scores
pub mod Tallies
pub mod Picks
