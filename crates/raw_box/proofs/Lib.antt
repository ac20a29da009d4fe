pub mod Setting
pub mod Words
