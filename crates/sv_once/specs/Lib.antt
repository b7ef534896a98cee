pub mod Asked
pub mod Parts
pub mod Entries
pub mod Answer
pub mod Room
