pub mod Allowed
pub mod Beacons
pub mod CodeTerms
pub mod IbssBeacons
pub mod Laid
pub mod Notices
