pub mod Kinds
pub mod Places
pub mod Bytes
pub mod Signed
pub mod Put
