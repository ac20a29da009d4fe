pub mod Faults
pub mod Batches
pub mod Gathering
pub mod Places
pub mod Misfit
