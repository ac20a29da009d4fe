pub mod Captures
pub mod Examples
pub mod Unlisted
pub mod Walk
