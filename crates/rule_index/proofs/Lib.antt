pub mod Alike
pub mod Coding
mod Examples
pub mod Following
pub mod Found
pub mod Heads
pub mod Indexed
pub mod Inserted
pub mod Joined
pub mod MaskLaws
pub mod Moving
pub mod Naming
pub mod Reading
pub mod Sorted
