pub mod Card
pub mod Firings
pub mod Ranges
pub mod Same
pub mod Text
pub mod Writable
