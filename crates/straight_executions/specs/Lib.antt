pub mod LastWrites
pub mod Laws
pub mod OneRun
