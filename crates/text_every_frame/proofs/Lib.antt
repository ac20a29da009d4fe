pub mod Listing
pub mod Saying
