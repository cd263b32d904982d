pub mod Calls
pub mod Channel
pub mod Codes
pub mod Values
