pub mod StraightProgram
pub mod Telling
pub mod Names
pub mod Parts
