-- The code's own terms, which no public promise cites.
pub mod BodyKinds
pub mod InIbss
pub mod Located
pub mod Notices
pub mod SingleFrames
