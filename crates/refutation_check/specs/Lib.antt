pub mod LiveClauses
pub mod Marked
pub mod Judged
pub mod Hints
