-- What is retired of a site as a JSON value, and how it is read; the members of a job's JSON value, put in one after another.
pub mod Members
pub mod Retirements
