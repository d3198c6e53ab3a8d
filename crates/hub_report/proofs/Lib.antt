pub mod LastCards
pub mod Bounds
pub mod Reported
pub mod WorkedReport
