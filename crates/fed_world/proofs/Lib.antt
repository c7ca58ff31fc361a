-- What the code of a world does is what happens in the run.
pub mod KeptLaws
pub mod SentLaws
