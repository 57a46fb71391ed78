pub mod WordLaws
pub mod LiteralWords
mod FrontLaws
mod PartLaws
mod HeaderLaws
