pub mod Arguments
pub mod CommandLine
pub mod Read
pub mod Words
