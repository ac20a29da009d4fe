pub mod Candidates
pub mod Ends
mod Examples
pub mod Filters
pub mod Indexes
pub mod Orders
pub mod Parts
pub mod Queues
pub mod Recordings
mod SentUnseen
pub mod Untold
pub mod Walks
pub mod Zeros
