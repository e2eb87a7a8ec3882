pub mod Heard
pub mod Parts
pub mod Rows
