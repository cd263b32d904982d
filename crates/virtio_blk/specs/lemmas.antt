pub mod DiskFacts
