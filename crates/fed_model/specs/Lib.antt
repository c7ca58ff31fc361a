-- What must be believed of a federation, in the order to read it.
-- What is done: operations and their values.
pub mod Account
pub mod Hold
pub mod Body
-- What is read of a set of operations.
pub mod Fields
pub mod Stages
pub mod Field
pub mod Pairs
pub mod Grant
pub mod JobView
pub mod Letter
pub mod Reservation
pub mod Retired
pub mod View
pub mod Identifiers
-- What a site answers to a command.
pub mod Permission
pub mod Origin
pub mod Desk
pub mod Refusals
pub mod Refusal
pub mod Answer
-- What a plan says.
pub mod Plan
-- What happens: packets, and runs of events at all sites.
pub mod Packet
pub mod Run
pub mod Outcome
pub mod Exchange
pub mod OpenGrants
-- What holds of them: lawful sets, and values in range.
pub mod Lawful
pub mod Ranges
pub mod RangedEvents
pub mod Limits
-- Lemmas that impls cite; nothing here has to be believed.
pub mod NamedPartLaws
pub mod FieldsLaws
pub mod StagesLaws
pub mod GrantLaws
pub mod HoldLaws
pub mod ValueLaws
