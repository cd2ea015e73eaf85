pub mod Places
pub mod Programs
pub mod Tables
