-- What the contracts of this crate cite.
pub mod Use
pub mod Profile
pub mod QueueOrder
pub mod QueueLaws
pub mod Queue
pub mod Plan
pub mod Machine
pub mod Events
pub mod SitePlan
pub mod RosterPlan
pub mod Extra
pub mod Promises
