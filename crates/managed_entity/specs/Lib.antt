pub mod Class
pub mod Mask
pub mod Instance
pub mod Answer
pub mod Shown
pub mod Write
pub mod Set
pub mod Get
