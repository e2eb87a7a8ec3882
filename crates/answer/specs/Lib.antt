pub mod Checks
pub mod Faults
pub mod Numbers
pub mod Outcomes
