pub mod Batches
pub mod Joining
pub mod Resting
pub mod Running
pub mod Stepping
