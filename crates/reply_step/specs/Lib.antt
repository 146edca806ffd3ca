pub mod Move
pub mod Step
pub mod Meaning
pub mod Code
