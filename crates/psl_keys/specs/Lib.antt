pub mod Belongs
pub mod Gathered
pub mod Unfit
