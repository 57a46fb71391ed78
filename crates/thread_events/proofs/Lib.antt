pub mod Detected
pub mod Entries
pub mod Fitting
pub mod Gotten
pub mod Matched
pub mod Reading
