pub mod Adopted
pub mod Checks
pub mod Interrupts
pub mod Reservations
