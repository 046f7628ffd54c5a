pub mod EverySo
pub mod Places
pub mod Asked
pub mod Deals
