pub mod Lines
pub mod Tight
pub mod Numbers
