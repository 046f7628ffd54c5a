pub mod Levels
pub mod Fitting
pub mod Permuted
pub mod Orders
pub mod Levelled
pub mod Chosen
pub mod Only
pub mod Picked
