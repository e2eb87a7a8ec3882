pub mod CodeTerms
pub mod Feeding
pub mod Listers
pub mod Lists
