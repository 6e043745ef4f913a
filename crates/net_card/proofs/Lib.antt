pub mod Stored
pub mod Tables
pub mod Read
pub mod Check
pub mod Write
