pub mod Looked
pub mod CarriedOn
pub mod RunDone
