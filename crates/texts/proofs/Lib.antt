pub mod TextLaws
mod GroupLaws
pub mod NumberLaws
