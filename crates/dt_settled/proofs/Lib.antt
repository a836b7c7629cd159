mod AllWrites
mod Entries
mod Insertion
mod Moving
mod Orders
mod Settlement
mod SoundNotes
mod TakingIn
