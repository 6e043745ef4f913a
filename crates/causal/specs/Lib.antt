pub mod Claims
pub mod Free
pub mod Print
pub mod Process
