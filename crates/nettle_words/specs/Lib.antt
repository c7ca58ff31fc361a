-- What the contracts of this crate cite.
pub mod CommandLine
pub mod CommandLineView
