pub mod Askable
pub mod FieldTokens
pub mod Meaning
pub mod Pruning
pub mod Queries
pub mod Sought
pub mod Spelled
