pub mod Clearing
pub mod InUse
pub mod KeptThroughout
pub mod OneWay
pub mod Received
pub mod SlotBySlot
pub mod StaysValid
pub mod Ways
