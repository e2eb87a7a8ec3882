pub mod Ceilings
pub mod Mapped
pub mod Possible
pub mod SumBound
