pub mod Numbers
pub mod Rows
pub mod Keys
pub mod Values
pub mod Lines
pub mod Outcomes
