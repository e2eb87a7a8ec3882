pub mod CodeTerms
pub mod Elements
pub mod Handed
pub mod Required
