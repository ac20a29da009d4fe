pub mod Grammar
pub mod Refused
