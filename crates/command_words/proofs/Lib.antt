pub mod Given
pub mod Ordered
pub mod Sides
