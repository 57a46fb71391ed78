pub mod Gotten
pub mod Named
