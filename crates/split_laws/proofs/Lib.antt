pub mod Times
pub mod Tags
pub mod Built
pub mod Spelling
