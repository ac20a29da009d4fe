pub mod Comparing
pub mod Expecting
pub mod Looking
pub mod Making
