pub mod Clocks
pub mod Counts
pub mod Queue
