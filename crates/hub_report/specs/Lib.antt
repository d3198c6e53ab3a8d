pub mod LastCard
pub mod ReportText
pub mod Reporting
pub mod Seen
pub mod WorkedReport
