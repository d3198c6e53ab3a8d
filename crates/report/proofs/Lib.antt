pub mod Bounds
mod Commas
pub mod Parts
pub mod Placing
pub mod Writing
