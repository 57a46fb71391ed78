pub mod PrintableText
pub mod NameTexts
pub mod InstructionNames
pub mod Instructions
pub mod ListingText
pub mod Pieces
