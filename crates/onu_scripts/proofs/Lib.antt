pub mod Found
pub mod Lines
pub mod Refused
pub mod Told
