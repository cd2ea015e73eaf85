pub mod Model
pub mod Formed
pub mod Stored
