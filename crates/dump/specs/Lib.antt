pub mod Numbers
pub mod Due
pub mod Steps
pub mod Reading
pub mod Written
pub mod Law
