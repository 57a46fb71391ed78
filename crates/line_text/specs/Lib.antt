pub mod Bounds
pub mod CommandLine
pub mod Fields
pub mod Ints
pub mod OutcomeReading
pub mod OutcomeRefusals
pub mod OutcomeText
pub mod Outcomes
