pub mod Net
pub mod Same
