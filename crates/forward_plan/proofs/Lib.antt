pub mod Attachments
pub mod Forgotten
pub mod Kept
pub mod Names
pub mod Replaced
pub mod Classes
