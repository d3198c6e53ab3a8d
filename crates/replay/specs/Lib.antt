pub mod Told
pub mod Replaying
pub mod Header
pub mod Standing
pub mod Replayed
