pub mod Composing
pub mod Failing
