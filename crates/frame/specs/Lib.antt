pub mod Answer
pub mod Frame
