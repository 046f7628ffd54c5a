pub mod Extremes
pub mod Parts
pub mod Sums
