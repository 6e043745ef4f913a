pub mod Claims
pub mod Lead
pub mod Ranking
pub mod Request
