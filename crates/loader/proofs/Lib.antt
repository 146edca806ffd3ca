pub mod Room
pub mod Walk
pub mod Said
pub mod Items
pub mod Shape
pub mod Tight
