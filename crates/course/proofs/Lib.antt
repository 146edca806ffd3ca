pub mod Tight
pub mod Turns
pub mod Resting
pub mod Parts
