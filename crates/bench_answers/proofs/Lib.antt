mod Examples
pub mod Begun
pub mod Collected
pub mod Finding
pub mod Following
pub mod Fronts
pub mod Idle
pub mod Lookups
pub mod Onward
pub mod Places
pub mod Plainly
pub mod Reaching
pub mod Requests
pub mod Results
pub mod Sending
pub mod Steps
