pub mod Bounds
pub mod Leaves
pub mod Performs
pub mod Puts
pub mod Refusals
