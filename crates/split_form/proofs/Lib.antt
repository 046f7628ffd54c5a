pub mod Rising
pub mod Keys
pub mod Blocks
pub mod Packing
pub mod Spelled
pub mod Whole
