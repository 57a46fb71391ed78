pub mod Symbols
pub mod Flat
pub mod Lists
pub mod Tables
pub mod Made
pub mod Synced
pub mod Volatiles
