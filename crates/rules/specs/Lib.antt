pub mod Check
pub mod Verdict
pub mod Pairs
pub mod Mated
pub mod Code
