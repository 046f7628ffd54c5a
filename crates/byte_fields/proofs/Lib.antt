pub mod Varint
pub mod Taken
pub mod Others
pub mod Pieces
pub mod Long
mod Streams
mod ClientFields
