pub mod Numbers
pub mod Ruled
