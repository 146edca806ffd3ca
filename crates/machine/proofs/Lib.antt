pub mod Tight
pub mod Turn
