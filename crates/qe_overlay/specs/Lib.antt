pub mod Fits
pub mod Held
pub mod Laid
pub mod Layers
pub mod Settled
