pub mod SevenBits
