-- What the contracts of this crate cite.
pub mod Turn
pub mod Run
pub mod Crash
pub mod Alarm
pub mod Own
pub mod Home
