pub mod Pairs
pub mod Ends
pub mod Asked
pub mod Trips
