pub mod Members
pub mod Winning
pub mod Counting
pub mod Listed
pub mod Reaching
pub mod Asked
pub mod Sided
