pub mod Kinds
pub mod Singles
