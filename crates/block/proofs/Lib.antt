pub mod Ending
pub mod Judging
