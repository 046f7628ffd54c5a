pub mod Postings
pub mod Rows
pub mod Cursors
pub mod Reading
