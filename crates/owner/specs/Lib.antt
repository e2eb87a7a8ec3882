pub mod Owners
pub mod Tbtts
