pub mod FirstRow
pub mod Neighbours
pub mod Outcomes
pub mod Readers
pub mod StaysApart
pub mod StaysValid
