-- Accounts, for callers too.
pub mod AccountLaws
