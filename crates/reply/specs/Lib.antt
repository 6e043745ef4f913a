pub mod Demanded
pub mod Refusal
pub mod Respond
