pub mod Walk
pub mod Names
pub mod RowLemmas
pub mod Finding
