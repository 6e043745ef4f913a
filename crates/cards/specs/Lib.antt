pub mod Cards
pub mod Claims
