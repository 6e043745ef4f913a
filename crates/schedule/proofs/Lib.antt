pub mod Collecting
pub mod Rounds
pub mod Timetables
