pub mod Lists
pub mod Methods
