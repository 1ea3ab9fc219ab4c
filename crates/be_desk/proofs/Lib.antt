mod Named
mod Filing
mod Leaving
mod StandSteps
mod Records
mod Seats
mod Offered
mod Fetched
mod Emptied
mod Desks
mod Draws
mod Answering
mod CoreSteps
mod CoreRuns
mod Openings
mod Tending
pub mod Places
pub mod Closing
