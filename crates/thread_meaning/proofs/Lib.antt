pub mod Acting
mod Applied
pub mod Exact
pub mod Looking
pub mod Measure
pub mod Normal
pub mod OneStep
pub mod Running
pub mod Runs
pub mod Sound
pub mod Stepping
pub mod UnderWay
pub mod Unique
