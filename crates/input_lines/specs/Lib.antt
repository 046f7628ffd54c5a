pub mod Held
pub mod Reading
pub mod Pieces
pub mod Request
pub mod Requests
pub mod Asking
