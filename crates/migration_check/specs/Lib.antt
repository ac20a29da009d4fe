pub mod Telling
pub mod Migration
pub mod Ports
pub mod Following
