-- What the contracts of this crate cite.
pub mod Replica
pub mod State
pub mod Outcome
pub mod Growth
pub mod Step
pub mod Retiring
