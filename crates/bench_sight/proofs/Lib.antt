mod Examples
pub mod Agreement
pub mod Leaving
pub mod Prefixes
pub mod Spelling
pub mod Tags
pub mod Verdicts
