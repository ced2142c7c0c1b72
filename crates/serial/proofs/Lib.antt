pub mod Bytes
pub mod Serials
