pub mod Pruned
