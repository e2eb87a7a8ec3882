pub mod Bodies
pub mod Calls
pub mod CodeTerms
pub mod Kinds
pub mod Lists
pub mod Reports
pub mod Requests
pub mod Surveys
