pub mod Along
pub mod Ordered
pub mod Reading
pub mod Told
