pub mod Following
pub mod Passing
