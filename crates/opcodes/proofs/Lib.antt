pub mod Table
pub mod Unique
pub mod Surveys
pub mod Listings
pub mod Scans
pub mod SameListing
pub mod Searches
