pub mod Figures
pub mod Runs
pub mod Ports
pub mod Tallies
pub mod Books
pub mod Faults
pub mod Lanes
