mod Numbers
mod Soundness
mod Spans
mod Taking
mod Undoing
