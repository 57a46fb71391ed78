pub mod MethodPlaces
pub mod Pieces
pub mod PrintedBytes
pub mod ThreadTexts
