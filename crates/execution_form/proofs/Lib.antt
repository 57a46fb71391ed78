pub mod Stating
pub mod Needing
pub mod Forming
pub mod Gathering
pub mod Passing
