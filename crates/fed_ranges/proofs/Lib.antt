pub mod DropLaws
pub mod RangeCounts
pub mod RangeEnds
pub mod RangePlaces
