pub mod MemberLaws
pub mod RetirementLaws
pub mod WrittenValues
