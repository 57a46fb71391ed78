pub mod formers
pub mod Pool
pub mod ClassText
pub mod Input
pub mod Reading
pub mod FirstFault
pub mod Refusals
pub mod Laws
