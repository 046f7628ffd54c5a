pub mod Reports
pub mod Counts
pub mod Listed
pub mod Examples
