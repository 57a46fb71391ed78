pub mod Pieces
pub mod Following
pub mod Clauses
pub mod Naming
pub mod Putting
pub mod Taking
