pub mod Accept
pub mod Agree
pub mod Clocks
pub mod Places
pub mod Rules
pub mod Same
