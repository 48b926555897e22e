-- The definitions that README's promises need.
pub mod Checked
pub mod DescriptionValues
pub mod Descriptions
pub mod MemberCodes
pub mod MemberValues
pub mod Members
pub mod NamedValues
pub mod Names
