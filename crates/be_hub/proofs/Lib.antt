mod AtBoard
mod Asking
mod FilesServed
mod SessionsServed
pub mod Pairs
pub mod Choices
pub mod Closing
pub mod Ends
pub mod Shuts
mod Transcripts
mod Posted
mod FilesClosed
pub mod Places
mod Entered
mod Turns
mod Visits
mod LinksServed
mod LinksBegun
mod LinksLegal
mod LinksPosted
pub mod WereRead
mod DoorSettled
mod Unbroken
mod DoorCounted
mod DoorServed
