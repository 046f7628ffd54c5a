pub mod NameLemmas
pub mod Ranges
pub mod Covering
pub mod Loops
pub mod Answering
pub mod Rising
