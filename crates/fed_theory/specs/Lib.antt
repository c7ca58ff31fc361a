-- What laws and the contracts of records and boards cite, beside the definitions of the model: how what is read changes
-- step by step, and which sets and operations the steps are of.
pub mod JobHistory
pub mod ValueOrders
pub mod JobSteps
pub mod ViewSteps
pub mod Cut
pub mod MayFollow
pub mod Retirements
pub mod Submits
-- Lemmas that impls and contracts cite.
pub mod ValueOrderLaws
