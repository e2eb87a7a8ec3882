pub mod Addresses
pub mod Heard
pub mod SentBy
