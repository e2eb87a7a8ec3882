pub mod ReportLayout
pub mod ReportTrip
pub mod ReportWritten
pub mod RequestLayout
pub mod RequestTrip
pub mod Silence
pub mod SpanTrip
