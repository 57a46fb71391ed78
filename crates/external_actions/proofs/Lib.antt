mod Lasting
mod Covering
