-- What a line of a script says.
pub mod Asker
pub mod Forms
pub mod Line
pub mod LineSites
pub mod LineView
pub mod Lines
pub mod Rosters
pub mod Values
pub mod Verb
