pub mod Reach
pub mod Drops
pub mod Findings
pub mod Graph
pub mod Claims
pub mod Ports
