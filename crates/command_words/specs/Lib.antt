pub mod Asked
pub mod Numbered
pub mod Range
pub mod Report
