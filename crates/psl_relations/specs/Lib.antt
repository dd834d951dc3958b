pub mod Back
pub mod Called
pub mod Passed
pub mod Ranks
pub mod Referred
pub mod Sets
pub mod Walks
