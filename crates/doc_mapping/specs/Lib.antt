pub mod Answer
pub mod Documents
pub mod Faults
pub mod Held
pub mod Leaves
pub mod Walk
