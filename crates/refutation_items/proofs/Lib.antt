mod Fronts
pub mod Refusing
