pub mod Put
pub mod Left
