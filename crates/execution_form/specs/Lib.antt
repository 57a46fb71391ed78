pub mod Facts
pub mod Form
pub mod Needs
