pub mod Same
pub mod UseRows
