pub mod ChangeLaws
pub mod Keeping
pub mod Keeps
pub mod OnlyReads
pub mod Unique
pub mod WriteLaws
