pub mod Cutting
pub mod Laws
pub mod States
pub mod Traces
pub mod Tracing
pub mod Worked
