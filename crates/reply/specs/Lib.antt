pub mod CodeTerms
pub mod Due
pub mod Frames
pub mod Replies
