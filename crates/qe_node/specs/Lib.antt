pub mod Joined
pub mod Port
pub mod Run
pub mod Serving
pub mod Taking
