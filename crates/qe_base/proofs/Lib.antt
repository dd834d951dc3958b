pub mod LaterCalls
pub mod Marked
