pub mod Stored
pub mod Removes
pub mod Ledger
pub mod Adding
pub mod Removed
