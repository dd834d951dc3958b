pub mod Exchange
pub mod History
pub mod Lines
pub mod State
