pub mod listed
