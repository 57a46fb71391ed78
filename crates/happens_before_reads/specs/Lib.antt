pub mod Accesses
pub mod Writes
pub mod Sights
