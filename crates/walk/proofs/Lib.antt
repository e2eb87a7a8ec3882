pub mod Kept
pub mod Passing
pub mod Requiring
pub mod RunLaws
pub mod Walking
