-- The code's own terms, which no public promise cites.
pub mod Readings
