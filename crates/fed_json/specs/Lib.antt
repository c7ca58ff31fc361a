-- What is read of JSON values.
pub mod Reading
pub mod Numbers
pub mod Values
pub mod Objects
