pub mod Places
pub mod Before
