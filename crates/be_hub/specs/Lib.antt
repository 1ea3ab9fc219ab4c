pub mod Quiet
pub mod Files
pub mod Closing
pub mod Posted
pub mod Transcripts
pub mod Links
pub mod Settling
pub mod Serving
