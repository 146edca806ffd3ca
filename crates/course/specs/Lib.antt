pub mod Course
pub mod Parts
