-- What the contracts of this crate cite.
pub mod Machine
pub mod ChartBars
pub mod ChartMarks
pub mod Chart
pub mod Planned
