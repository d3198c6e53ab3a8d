pub mod Looking
pub mod Calls
pub mod Running
