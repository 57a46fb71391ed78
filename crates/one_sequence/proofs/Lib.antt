mod TextLines
mod Entries
mod Texts
