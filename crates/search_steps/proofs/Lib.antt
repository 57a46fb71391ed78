pub mod Values
pub mod Keeping
pub mod Returning
pub mod Put
