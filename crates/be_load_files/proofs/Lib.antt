pub mod SoFar
pub mod AreTables
pub mod Bytes
pub mod DumpLines
pub mod Dumped
