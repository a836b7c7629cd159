mod Lines
mod Spans
mod Stretches
