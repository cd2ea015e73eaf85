pub mod Feeding
pub mod Fed
pub mod Sounds
pub mod Framing
pub mod Laws
pub mod Runs
pub mod Texts
