pub mod Events
pub mod Table
