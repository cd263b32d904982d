pub mod AccessLemmas
pub mod HarvestLemmas
pub mod TargetLemmas
