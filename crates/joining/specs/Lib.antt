pub mod Claims
pub mod Code
pub mod Interleaving
pub mod Joining
pub mod Layout
pub mod Pairs
pub mod Request
pub mod Starred
