pub mod Outcomes
pub mod Turns
pub mod Steps
pub mod Ending
pub mod Standing
pub mod Paging
pub mod Idle
pub mod CollectAll
