pub mod Machine
pub mod Resting
pub mod Code
