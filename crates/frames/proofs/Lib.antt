pub mod Ranged
pub mod Shapes
pub mod Said
pub mod Trips
