mod Bounds
mod Bytes
mod Known
mod Raised
mod Soundness
mod Undoing
