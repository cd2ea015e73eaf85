pub mod Formed
pub mod Standing
