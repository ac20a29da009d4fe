pub mod Lines
pub mod Front
pub mod RequestsFirst
pub mod TraceLines
