pub mod Ground
pub mod Asked
pub mod Standing
pub mod Windows
pub mod Right
pub mod Plain
pub mod Kept
