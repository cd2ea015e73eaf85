pub mod Extends
pub mod Tested
