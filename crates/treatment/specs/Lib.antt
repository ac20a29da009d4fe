pub mod Treatment
pub mod Treated
pub mod Mix
pub mod Compiled
