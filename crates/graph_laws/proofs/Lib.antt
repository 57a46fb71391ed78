pub mod Fit
pub mod OneKnown
pub mod OneList
pub mod SlotInts
pub mod Unique
