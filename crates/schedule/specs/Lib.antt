pub mod Collect
pub mod Timetable
