pub mod Gates
pub mod Sums
pub mod Products
pub mod Shifts
pub mod Tests
pub mod Circuits
pub mod Sources
