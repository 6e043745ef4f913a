pub mod Code
pub mod Session
