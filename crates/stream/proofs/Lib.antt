pub mod Hearing
pub mod Tight
