mod Vetted
pub mod Tight
