pub mod Line
pub mod Shown
pub mod Text
