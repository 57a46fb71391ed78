pub mod Hints
pub mod Learned
pub mod Marks
pub mod Resolvents
pub mod Walks
pub mod Analyses
pub mod Exclusions
