-- What is said to a script.
pub mod Ends
pub mod ScriptWorld
pub mod Reading
pub mod Said
pub mod Script
