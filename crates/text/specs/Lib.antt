pub mod Decimal
pub mod Key
pub mod Number
pub mod Starred
pub mod Writer
