pub mod Crc
pub mod Code
