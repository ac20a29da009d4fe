pub mod Words
pub mod Among
pub mod History
pub mod Line
pub mod Doubts
pub mod Seen
pub mod Borders
