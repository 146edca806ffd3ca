pub mod Runs
pub mod Rows
pub mod Numbers
pub mod Tight
pub mod Keyed
