-- The code's own terms: places in a run, and what stands there.
pub mod Found
pub mod Next
pub mod Required
