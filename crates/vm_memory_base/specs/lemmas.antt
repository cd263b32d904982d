-- Lemmas that impls, or proofs of the crates above, have to cite. No contract cites these files.
pub mod ArrayCodes
pub mod ByteCodes
pub mod NewPages
pub mod OptionalPages
pub mod PairCodes
pub mod Told
pub mod Turns
pub mod Vectors
