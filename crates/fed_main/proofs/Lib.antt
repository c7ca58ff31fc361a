pub mod ReplayEnds
pub mod Threads
