pub mod Numbers
pub mod Model
pub mod Fields
pub mod Ranges
pub mod Parsing
pub mod Bytes
