pub mod Frames
pub mod Writing
pub mod InputLines
pub mod Stops
pub mod Groups
pub mod GoingOn
pub mod WordLines
