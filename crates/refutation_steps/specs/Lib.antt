pub mod HintSteps
pub mod Tables
pub mod RuleWords
pub mod Instances
