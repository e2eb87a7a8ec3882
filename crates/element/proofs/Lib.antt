pub mod DfsContents
pub mod FixedLength
pub mod RoundTrips
