pub mod Wanted
pub mod Only
pub mod Rows
pub mod Decision
