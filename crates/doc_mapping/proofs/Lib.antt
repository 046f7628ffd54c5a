pub mod Choices
pub mod Splitting
pub mod Answering
pub mod Rising
pub mod Fitting
pub mod Holding
pub mod Mapped
pub mod Flat
pub mod Walked
pub mod Recorded
pub mod LeafTexts
pub mod Numbering
pub mod Gathering
pub mod Starting
mod Worked
