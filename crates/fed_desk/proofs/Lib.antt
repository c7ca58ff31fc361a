-- How the first case of a table is found.
pub mod FirstCases
