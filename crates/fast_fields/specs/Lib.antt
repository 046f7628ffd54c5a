pub mod Packed
pub mod Columns
pub mod Texts
pub mod Reading
pub mod Readers
pub mod Lookups
