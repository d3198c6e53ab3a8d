pub mod Progress
pub mod Letters
pub mod Bounds
