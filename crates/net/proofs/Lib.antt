pub mod Card
pub mod Rows
pub mod Same
pub mod Short
pub mod Writable
