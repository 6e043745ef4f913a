pub mod Opening
pub mod Records
