pub mod Safety
pub mod Texts
pub mod Outcome
