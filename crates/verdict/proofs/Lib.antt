pub mod Commands
pub mod Inputs
pub mod Judged
pub mod LineTexts
pub mod Told
