pub mod Naming
mod Listing
pub mod Seeing
mod Agreeing
mod Scanning
