pub mod CodeTerms
pub mod Replies
pub mod Tables
pub mod Validity
