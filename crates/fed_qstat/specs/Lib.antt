-- What the contracts of this crate cite.
pub mod Columns
pub mod Full
pub mod Identifier
pub mod JobText
pub mod Layout
pub mod Listed
pub mod Listing
pub mod Outcome
pub mod PlanText
pub mod Short
