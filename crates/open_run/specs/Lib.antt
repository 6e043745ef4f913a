pub mod Cards
pub mod Claims
pub mod Open
pub mod Request
pub mod Starred
