pub mod CompiledTables
pub mod Transparent
pub mod Routing
pub mod Reading
pub mod Places
pub mod Planned
pub mod Meant
pub mod MovedTreats
