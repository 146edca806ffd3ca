pub mod Thing
pub mod Answer
pub mod Read
