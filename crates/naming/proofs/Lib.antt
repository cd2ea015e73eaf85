pub mod FirstNames
pub mod Joined
