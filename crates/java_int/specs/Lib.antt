pub mod JavaInt
pub mod BitLaws
