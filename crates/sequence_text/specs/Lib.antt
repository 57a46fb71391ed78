pub mod SequenceText
pub mod Pieces
