pub mod Joined
pub mod Maximal
