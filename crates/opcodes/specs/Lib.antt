pub mod Instructions
pub mod Listing
pub mod Reached
pub mod Faults
pub mod Survey
pub mod Scan
pub mod Laws
