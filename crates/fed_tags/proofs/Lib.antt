-- The lemmas that proofs of the methods cite.
pub mod StampLists
pub mod GroupLaws
pub mod TagLoops
pub mod Equality
pub mod Places
