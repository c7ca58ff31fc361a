pub mod Forms
pub mod Views
pub mod Steps
pub mod NumberLaws
pub mod FormLaws
pub mod ObjectLaws
pub mod ListLaws
pub mod RowLaws
