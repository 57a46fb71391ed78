pub mod Lists
mod Converse
mod TableLaws
mod WordLaws
pub mod HintLaws
