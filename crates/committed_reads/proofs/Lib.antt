mod Earliness
mod Firsts
mod Defaulting
mod Nows
mod Committing
