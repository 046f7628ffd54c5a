pub mod Numbers
pub mod Lists
pub mod Heads
pub mod Passes
pub mod Walks
pub mod Puts
pub mod Exact
pub mod Many
