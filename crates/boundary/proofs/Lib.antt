pub mod Coded
pub mod FieldByField
pub mod FieldLengths
pub mod OneOutcome
pub mod Passes
pub mod QuietsByIndex
pub mod SignedAnswers
