pub mod Search
pub mod SearchLaws
pub mod Fit
pub mod Lent
