pub mod Chain
pub mod ChainText
pub mod Iommu
pub mod Memories
pub mod Reach
