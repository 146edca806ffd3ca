pub mod Apart
pub mod Bools
pub mod Stack
pub mod Least
pub mod Lists
