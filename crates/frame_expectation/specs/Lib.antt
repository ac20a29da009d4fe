pub mod Filter
pub mod Wanted
pub mod Expectation
pub mod Check
