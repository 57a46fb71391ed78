pub mod Scanned
pub mod Named
pub mod SyncPlaces
mod Channels
mod Writes
mod Seeing
pub mod Placed
