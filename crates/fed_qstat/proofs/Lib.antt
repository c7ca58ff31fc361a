-- Lemmas on columns and on lists of jobs.
pub mod BoardJobs
pub mod Columns
pub mod DistinctIdentifiers
pub mod ListedSets
pub mod NamesBelow
pub mod Ranges
pub mod ShownFields
pub mod StartLines
