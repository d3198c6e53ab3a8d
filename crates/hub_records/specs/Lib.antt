pub mod Commands
pub mod Advance
pub mod Names
