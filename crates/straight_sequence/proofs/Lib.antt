pub mod Committed
pub mod DefaultOrder
pub mod Joined
pub mod Whole
