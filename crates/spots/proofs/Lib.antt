pub mod Along
pub mod FirstItems
pub mod Landing
pub mod Same
