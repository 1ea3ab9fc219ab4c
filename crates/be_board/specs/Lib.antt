pub mod Word
pub mod State
pub mod Reads
pub mod Changes
pub mod Letters
pub mod LocalCopy
pub mod Local
