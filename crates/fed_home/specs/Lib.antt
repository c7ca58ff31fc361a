-- What the contracts of this crate cite.
pub mod Header
pub mod Replay
pub mod Compaction
pub mod Fault
pub mod Home
