pub mod Examples
pub mod Metrics
