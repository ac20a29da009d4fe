mod Examples
pub mod Actions
pub mod Decided
pub mod Fewer
pub mod Lengths
pub mod Own
