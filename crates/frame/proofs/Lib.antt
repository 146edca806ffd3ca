pub mod Newline
pub mod Writing
pub mod ReadBack
pub mod Tight
