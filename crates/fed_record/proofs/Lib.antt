-- What records of jobs read as and stand for, for callers too.
pub mod CoveredLaws
pub mod RangeLaws
pub mod RecordReads
pub mod PresentPairs
pub mod BodyLaws
pub mod StandingTags
pub mod StandingRecords
pub mod JobRecordReads
