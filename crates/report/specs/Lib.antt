pub mod Fault
pub mod Figures
pub mod Lines
pub mod Placed
pub mod Printed
pub mod Shown
pub mod Writer
