pub mod Rows
pub mod Due
pub mod Answers
