pub mod Refusal
pub mod Argument
pub mod Holds
pub mod Code
