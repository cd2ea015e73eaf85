pub mod Searched
pub mod LowBytes
