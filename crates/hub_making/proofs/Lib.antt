pub mod MakingSteps
pub mod MakingDone
