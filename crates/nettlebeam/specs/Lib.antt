-- What the contracts of this crate cite.
pub mod Copy
pub mod Fault
pub mod Openings
pub mod Status
