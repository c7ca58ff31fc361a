-- What the contracts of this crate cite.
pub mod Operation
pub mod Reservation
pub mod Changes
pub mod Record
pub mod JobRecord
pub mod CoveredJob
pub mod JobParts
pub mod RecordSteps
pub mod RecordLaws
pub mod JobRecordSteps
pub mod JobPartLaws
pub mod JobRecordLaws
pub mod ReservationLaws
