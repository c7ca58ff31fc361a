-- What is said to a script, and how its lines run at the same time.
pub use Rattle.fed_replay.specs.Said
pub use Rattle.fed_replay.specs.Script
pub mod Ends
pub mod Fault
pub mod Live
pub mod Reports
pub mod Thread
