pub mod Builders
pub mod OneThread
pub mod CommitsItself
