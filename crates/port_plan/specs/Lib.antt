pub mod Plan
pub mod Leaving
pub mod CompiledTable
