pub mod Numbers
pub mod GemPorts
pub mod Tables
pub mod Spellings
mod Examples
