pub mod Items
pub mod Taken
pub mod Refused
pub mod Texts
