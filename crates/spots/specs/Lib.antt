pub mod Chains
pub mod Leading
pub mod Order
pub mod Spots
