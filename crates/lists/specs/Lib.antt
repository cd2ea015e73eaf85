pub mod Held
pub mod Every
pub mod Between
