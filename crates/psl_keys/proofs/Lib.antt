pub mod Joins
pub mod Known
pub mod Pairs
pub mod Sets
