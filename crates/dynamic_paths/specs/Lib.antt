pub mod LeafTexts
pub mod Leaves
pub mod Walk
