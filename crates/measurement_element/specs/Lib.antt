pub mod CodeTerms
pub mod Found
pub mod MeasurementReport
pub mod MeasurementRequest
pub mod Span
