pub mod Lists
pub mod Priorities
pub mod Reaching
pub mod Small
pub mod Tables
pub mod Walking
pub mod Dropping
pub mod Unused
pub mod Holding
pub mod Kept
pub mod Growing
pub mod Edges
mod Examples
