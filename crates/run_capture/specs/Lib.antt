pub mod Fault
pub mod Lines
pub mod Outcome
pub mod Report
pub mod Source
