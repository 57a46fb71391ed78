pub mod Adding
pub mod Order
pub mod Up
