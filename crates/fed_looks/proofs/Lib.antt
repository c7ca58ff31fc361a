-- Lemmas on the entries of a board, on jobs as JSON objects, on values without floats, on looks, on sites and on words.
pub mod EachWord
pub mod Plain
pub mod Entries
pub mod Gathered
pub mod JobLaws
pub mod Placed
pub mod PlanWords
pub mod Sites
