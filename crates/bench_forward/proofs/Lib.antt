mod Examples
pub mod Counting
pub mod OneMore
pub mod Nothing
pub mod Noting
pub mod Numbering
pub mod Sizes
pub mod SoFar
pub mod Wholes
