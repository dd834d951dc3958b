pub mod Agree
pub mod FilterLaws
pub mod Layers
mod FitLiterals
mod Literals
pub mod OrderLaws
pub mod PageLaws
pub mod Parts
pub mod RelationLaws
pub mod Sorting
