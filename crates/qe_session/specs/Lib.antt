pub mod Batches
pub mod Handling
pub mod Performing
pub mod Standing
