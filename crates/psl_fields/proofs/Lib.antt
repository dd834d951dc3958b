pub mod Fitting
pub mod Twice
