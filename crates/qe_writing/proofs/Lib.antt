pub mod FitLayers
mod FitLiterals
pub mod Layers
pub mod Models
