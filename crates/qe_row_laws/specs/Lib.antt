pub mod Deletes
pub mod Left
pub mod Orders
pub mod Pairs
pub mod Puts
