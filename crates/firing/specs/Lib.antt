pub mod Claims
pub mod Replay
pub mod Semantics
pub mod Step
pub mod Tokens
