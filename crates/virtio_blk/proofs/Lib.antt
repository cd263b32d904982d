pub mod ChainFacts
pub mod DiskFacts
pub mod LentFacts
pub mod LookFacts
pub mod ProcessFacts
pub mod ServeFacts
pub mod StepFacts
pub mod TextFacts
