pub mod Names
pub mod NameFields
pub mod Deltas
pub mod Checkpoints
