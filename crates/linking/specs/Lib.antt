pub mod Laws
pub mod Linking
pub mod Operands
pub mod Phases
pub mod Refusals
