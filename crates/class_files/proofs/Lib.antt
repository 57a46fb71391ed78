mod Classes
mod Comes
mod Limits
mod Told
