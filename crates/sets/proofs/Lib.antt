pub mod Bits
pub mod Members
pub mod Tight
