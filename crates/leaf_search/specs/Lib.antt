pub mod Asks
pub mod Counts
pub mod Numbers
pub mod Answers
pub mod FileRanges
pub mod Needs
pub mod Shown
