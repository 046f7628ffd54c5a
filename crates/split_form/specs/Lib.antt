pub mod Sorted
pub mod Blocks
pub mod Packing
pub mod Spelled
pub mod Tagged
pub mod Form
pub mod Facts
pub mod Examples
