pub mod Form
pub mod Inverse
pub mod Line
pub mod Sheet
pub mod Code
