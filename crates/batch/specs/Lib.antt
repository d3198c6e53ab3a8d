pub mod Told
pub mod Reading
pub mod Holds
pub mod Totals
pub mod Showing
