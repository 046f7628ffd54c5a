pub mod Datetimes
