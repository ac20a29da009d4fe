pub mod Codes
pub mod Examples
pub mod Spellings
