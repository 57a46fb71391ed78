mod Mains
mod OneProgram
mod OneRefusal
mod OperandLists
mod Phased
pub mod Readable
pub mod Typable
mod TypedMethods
