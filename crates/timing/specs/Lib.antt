pub mod Claims
pub mod Rounding
pub mod Schedule
pub mod Solve
pub mod Timing
pub mod Windows
