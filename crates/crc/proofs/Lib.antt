pub mod Run
pub mod Linear
pub mod Tight
mod Table
