pub mod Elements
pub mod Numbers
pub mod Signed
pub mod Sums
pub mod Writing
