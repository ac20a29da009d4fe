pub mod Full
pub mod Holds
pub mod Numbers
pub mod Opening
