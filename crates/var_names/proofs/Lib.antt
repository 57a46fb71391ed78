mod Equal
pub mod VariableLists
mod NumberedLaws
mod ReadingLaws
pub mod FamilyLaws
pub mod LiteralLaws
pub mod ByteLaws
