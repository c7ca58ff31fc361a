-- What the contracts of public calls cite.
pub mod Faults
pub mod Replay
pub mod Seat
pub mod Calls
pub mod Claims
pub mod Placing
pub mod Settled
pub mod Settle
-- What contracts of inner calls cite alone.
pub mod Course
pub mod Cursors
pub mod Claimants
