-- What the contracts of this crate cite.
pub mod Board
pub mod Counts
pub mod BoardLaws
pub mod Changes
pub mod Retiring
