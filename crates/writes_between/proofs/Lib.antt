mod Below
mod Rising
mod ThreadBounds
pub mod Passing
