pub mod CodeTerms
pub mod Members
pub mod Validity
