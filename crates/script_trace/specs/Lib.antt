pub mod Script
pub mod Setting
pub mod Trace
