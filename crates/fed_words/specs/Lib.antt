-- What the contracts of this crate cite.
pub mod Askable
pub mod Fault
pub mod Identifier
pub mod Item
pub mod Kinds
pub mod Last
pub mod Number
pub mod Priority
pub mod Reading
pub mod Request
pub mod RequestView
pub mod Resource
pub mod Setting
pub mod Site
pub mod Spelling
pub mod Syntax
pub mod Utility
