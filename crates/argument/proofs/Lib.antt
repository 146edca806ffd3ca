mod Apart
pub mod Signs
pub mod Past
pub mod Refusals
pub mod Tight
