pub mod Links
pub mod Numbers
pub mod Drawn
pub mod Sums
pub mod Kept
pub mod Counts
pub mod Door
pub mod AcceptErrors
