pub mod Others
pub mod Noting
pub mod Fronts
pub mod Decimals
pub mod Apart
mod Worked
