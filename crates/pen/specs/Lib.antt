pub mod CodeTerms
pub mod Decimals
pub mod Lines
pub mod Numerals
pub mod Penning
pub mod Rooms
