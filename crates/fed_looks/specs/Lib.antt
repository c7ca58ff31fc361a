-- What the contracts of this crate cite.
pub mod JsonLine
pub mod JobMembers
pub mod JobObject
pub mod Look
pub mod LookView
pub mod LookWord
pub mod Reserved
pub mod Why
