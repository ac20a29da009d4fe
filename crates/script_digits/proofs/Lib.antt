pub mod Characters
pub mod Digits
pub mod Pairs
pub mod Refusals
