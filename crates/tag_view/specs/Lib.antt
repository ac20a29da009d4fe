pub mod Tag
pub mod Frame
pub mod Fault
pub mod Dscp
pub mod Word
pub mod Packed
