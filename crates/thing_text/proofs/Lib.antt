pub mod Bytes
pub mod Numbers
pub mod ReadBack
pub mod Signs
pub mod Tight
