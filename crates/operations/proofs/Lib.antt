pub mod Answers
pub mod Causality
pub mod Demands
pub mod Lengths
pub mod Places
pub mod Requests
pub mod Same
pub mod Ends
