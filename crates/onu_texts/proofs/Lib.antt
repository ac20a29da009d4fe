pub mod Behind
pub mod Found
pub mod Said
