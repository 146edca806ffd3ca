pub mod Arithmetic
pub mod Literal
