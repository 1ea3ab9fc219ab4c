mod Posted
mod OpenedRows
mod LocalLists
mod LocalWords
mod LocalStates
pub mod Going
pub mod Delivered
