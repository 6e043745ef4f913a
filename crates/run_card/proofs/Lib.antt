pub mod Checking
pub mod Parts
pub mod Reading
pub mod Writing
