pub mod Place
pub mod Next
pub mod Edits
pub mod Parts
pub mod Setting
pub mod Counted
pub mod Sync
pub mod Answered
pub mod Attached
pub mod Standing
pub mod Accepted
pub mod Touched
pub mod Ascending
mod Examples
