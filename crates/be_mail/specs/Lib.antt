pub mod Letters
pub mod Mailbox
pub mod Rule
pub mod Passes
pub mod Boxes
pub mod Settled
pub mod Names
