pub mod Printing
pub mod Outcomes
