pub mod UseRows
pub mod SameFrames
