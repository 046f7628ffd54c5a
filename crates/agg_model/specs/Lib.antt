pub mod Answers
pub mod Checking
pub mod Counting
pub mod Listed
pub mod Partials
pub mod Spans
pub mod Tallies
