pub mod Members
pub mod Tabled
