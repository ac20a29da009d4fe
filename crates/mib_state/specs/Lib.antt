pub mod Entities
pub mod Held
pub mod Step
pub mod After
pub mod Attached
pub mod Touch
