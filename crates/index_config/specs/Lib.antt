pub mod Rules
pub mod Tables
pub mod Fields
pub mod Sections
pub mod Answer
pub mod Accepted
pub mod References
