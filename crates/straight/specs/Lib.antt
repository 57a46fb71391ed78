pub mod Doing
pub mod Meaning
pub mod Walk
pub mod Laws
pub mod Runs
