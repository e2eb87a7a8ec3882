pub mod Calls
pub mod Fits
pub mod Held
pub mod Records
