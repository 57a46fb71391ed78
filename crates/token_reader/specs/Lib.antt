pub mod AtHand
pub mod Refusals
