pub mod Joined
pub mod Left
pub mod Cut
pub mod CutFrames
pub mod Walk
