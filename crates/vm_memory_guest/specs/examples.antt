-- What only small cases cite: no contract of the code speaks of it.
pub mod Fixtures
