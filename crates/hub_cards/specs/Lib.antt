pub mod Tables
pub mod Statuses
