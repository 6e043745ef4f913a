pub mod Cards
pub mod OnNet
pub mod Places
pub mod Sheets
pub mod TwoRuns
pub mod Values
