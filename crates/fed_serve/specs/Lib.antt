-- What the contracts of this crate cite.
pub mod Fault
pub mod Frame
pub mod Inputs
pub mod Openings
pub mod Served
pub mod Words
pub mod Written
