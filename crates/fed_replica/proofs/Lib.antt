-- What sites answer, for callers too.
pub mod RemovedPairs
pub mod Unrefused
pub mod StepLaws
pub mod GrantAnswers
pub mod WantOfMemory
pub mod Lefts
mod SameStates
pub mod Receipts
pub mod SameReplicas
mod Unsettled
mod RangesWith
