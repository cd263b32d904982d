-- Lemmas that impls, or proofs of the crates above, have to cite. No contract cites these files.
pub mod Orders
pub mod TypedFacts
