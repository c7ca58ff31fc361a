-- The JSON values of jobs, and what is read of them.
pub mod Stamps
pub mod Fields
pub mod Grants
pub mod Progress
pub mod Pairs
pub mod Covers
pub mod Job
pub mod Members
pub mod Parts
