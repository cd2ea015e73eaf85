pub mod Grown
pub mod Rounds
pub mod Outcome
