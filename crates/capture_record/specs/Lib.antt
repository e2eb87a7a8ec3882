pub mod CodeTerms
pub mod Entries
pub mod Records
