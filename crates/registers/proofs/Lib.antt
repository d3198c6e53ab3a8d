pub mod OfMove
pub mod Sizes
pub mod Rounding
pub mod Dividing
