pub mod Ends
pub mod Unit
