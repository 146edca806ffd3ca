pub mod Rows
pub mod Judge
pub mod All
pub mod Tight
pub mod Letters
