pub mod Covering
pub mod Ends
pub mod FirstUnit
