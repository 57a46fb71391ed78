pub mod Faults
pub mod Growth
pub mod Reading
pub mod Extents
