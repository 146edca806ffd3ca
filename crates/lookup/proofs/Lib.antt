pub mod Tight
pub mod Walks
pub mod Seeing
pub mod Passing
pub mod Laying
pub mod Looking
pub mod Making
