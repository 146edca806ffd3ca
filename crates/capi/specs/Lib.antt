pub mod Frames
pub mod Replies
pub mod Scripts
