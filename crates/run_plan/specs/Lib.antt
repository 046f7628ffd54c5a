pub mod Every
pub mod Asked
pub mod Dealing
