pub mod Looked
pub mod Shown
pub mod Sided
