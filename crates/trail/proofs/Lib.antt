pub mod Lists
pub mod Soundness
pub mod Changes
pub mod Lookup
pub mod Back
