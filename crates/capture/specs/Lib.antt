pub mod Fault
pub mod Limits
pub mod Listed
pub mod Numbers
pub mod Records
