pub mod Changes
pub mod Invalidation
pub mod Kept
pub mod Leads
pub mod Taking
