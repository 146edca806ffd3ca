pub mod Loops
pub mod Places
pub mod Leading
pub mod Tight
