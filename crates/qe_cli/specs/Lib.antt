pub mod Asked
pub mod Command
pub mod Connected
pub mod Ends
pub mod Refused
pub mod RealHost
pub mod Says
