pub mod Grammar
pub mod Events
pub mod Scan
pub mod Writing
pub mod SchemaTexts
pub mod Words
pub mod Declarations
