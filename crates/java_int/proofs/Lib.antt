pub mod Wraps
pub mod Ranges
pub mod Carries
pub mod IntBits
pub mod SignBits
pub mod Products
pub mod Compares
