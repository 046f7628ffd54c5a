mod KeyFields
pub mod Entries
pub mod Positions
pub mod States
pub mod Landings
pub mod Due
pub mod Plans
pub mod Told
pub mod Starts
