pub mod Equal
pub mod Known
pub mod Members
pub mod Tests
