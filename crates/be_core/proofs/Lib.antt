pub mod Naming
pub mod Outcomes
pub mod Answered
pub mod Runs
pub mod InMemory
