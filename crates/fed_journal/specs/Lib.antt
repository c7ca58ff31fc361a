-- What journals promise.
pub mod Calls
pub mod Device
pub mod Fault
pub mod Files
pub mod Journal
pub mod Lines
pub mod Memory
