-- Ranges of numbers.
pub mod Ranges
pub mod Dropped
pub mod Retirements
pub mod Retired
pub mod RangeLaws
pub mod RetirementLaws
