pub mod Meaning
pub mod Counts
pub mod Held
pub mod Ways
pub mod Listing
pub mod Drawn
pub mod LeftOnly
pub mod Bounds
