pub mod Searches
pub mod SearchSteps
