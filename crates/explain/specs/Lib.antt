pub mod Force
pub mod Order
pub mod Mismatch
pub mod Covers
pub mod Outgoing
pub mod Priority
pub mod Steps
pub mod Ends
