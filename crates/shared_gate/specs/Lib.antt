pub mod Recording
pub mod Acts
pub mod Sharing
pub mod SharedLaws
