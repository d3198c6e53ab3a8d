pub mod Headers
pub mod Progress
pub mod StepLines
pub mod MadeHubs
pub mod Placed
