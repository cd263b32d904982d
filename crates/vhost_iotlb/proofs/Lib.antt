pub mod ApplyLemmas
pub mod CallLemmas
pub mod KeptLemmas
pub mod LeadLemmas
pub mod InvalidationLemmas
pub mod TableLemmas
pub mod TakingLemmas
