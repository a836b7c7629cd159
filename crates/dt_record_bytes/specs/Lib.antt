pub mod WideAnswer
pub mod WideReading
