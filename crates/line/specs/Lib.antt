pub mod Command
pub mod Line
pub mod Code
