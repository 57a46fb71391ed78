pub mod Judged
pub mod Laws
pub mod Past
pub mod Sound
