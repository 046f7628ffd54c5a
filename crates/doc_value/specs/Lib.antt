pub mod Documents
pub mod Lent
pub mod Printed
pub mod Terms
pub mod Writing
