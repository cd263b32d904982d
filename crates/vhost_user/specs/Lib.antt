pub mod Connection
pub mod Features
pub mod Inflight
pub mod Log
pub mod Reply
pub mod Running
pub mod Vring
