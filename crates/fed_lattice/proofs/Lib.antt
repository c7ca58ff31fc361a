-- The lemmas that proofs of the methods cite, and those that the crates above cite.
pub mod EntryJoins
pub mod EntryLoops
pub mod EntryValues
pub mod FilterLaws
pub mod ResultLaws
pub mod StampedLaws
pub mod TableLoops
pub mod TableValues
pub mod TableWrites
pub mod UnionLaws
pub mod VersionOfLaws
