pub mod Events
pub mod Longest
pub mod Neighbours
pub mod Queues
pub mod Same
pub mod Tokens
pub mod Ascending
pub mod Determined
