pub mod Alone
pub mod Changes
pub mod Lengths
pub mod Typed
