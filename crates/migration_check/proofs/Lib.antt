pub mod Told
pub mod Carried
pub mod Elsewhere
pub mod Looking
pub mod Ways
pub mod Numbers
pub mod Placed
pub mod Named
