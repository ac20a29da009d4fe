pub mod Best
pub mod Choice
pub mod Edit
pub mod Entry
pub mod Meaning
pub mod Rule
pub mod Spelling
pub mod Table
