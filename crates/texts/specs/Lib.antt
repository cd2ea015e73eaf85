pub mod Answers
pub mod Numbers
pub mod Lines
pub mod Digits
pub mod Reading
pub mod Outputs
