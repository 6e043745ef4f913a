pub mod Answers
pub mod Entered
pub mod Slots
pub mod Stands
