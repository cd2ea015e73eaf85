pub mod Replies
pub mod Growth
pub mod Lister
pub mod Turns
pub mod Answered
