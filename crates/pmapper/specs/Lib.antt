pub mod Mapper
