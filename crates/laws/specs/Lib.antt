pub mod Stack
pub mod Least
