pub mod ChannelSwitch
pub mod IbssDfs
pub mod PowerConstraint
pub mod Quiet
pub mod TpcReport
pub mod TpcRequest
