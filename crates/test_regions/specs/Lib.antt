pub mod Markers
pub mod Regions
