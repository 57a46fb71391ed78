pub mod Hops
pub mod Order
