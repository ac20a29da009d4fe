pub mod Beginnings
pub mod Confirming
pub mod Adding
pub mod Same
pub mod Keeps
pub mod Messages
pub mod Carried
pub mod Parts
pub mod Last
pub mod Numbers
pub mod Fitting
pub mod Shown
pub mod Interleavings
mod Examples
