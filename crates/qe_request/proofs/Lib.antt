pub mod Carried
pub mod Few
pub mod Fitting
pub mod Given
pub mod Objects
pub mod Rows
pub mod Texts
