pub mod NumberFields
pub mod Leads
pub mod MaskFields
