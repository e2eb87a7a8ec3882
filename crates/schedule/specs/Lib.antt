pub mod Schedules
pub mod Units
