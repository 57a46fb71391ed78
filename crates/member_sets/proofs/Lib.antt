mod Below
mod Walked
