-- Packets as JSON values, and how they are read.
pub mod Reservations
pub mod Packet
pub mod Reading
pub mod Members
pub mod Identifiers
pub mod Faults
pub mod Printed
