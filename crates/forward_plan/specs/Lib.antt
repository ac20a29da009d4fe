pub mod Ports
pub mod Attachment
pub mod Parts
pub mod Compiled
pub mod Setting
