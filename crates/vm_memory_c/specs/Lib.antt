pub mod Backend
pub mod Block
pub mod BlockHandle
pub mod Calls
pub mod Handle
pub mod Vhost
