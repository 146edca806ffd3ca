pub mod Amounts
pub mod Nan
pub mod Metadata
pub mod Parts
pub mod Packages
pub mod Tight
