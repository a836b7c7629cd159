pub mod AtKeys
pub mod Choice
pub mod Finding
pub mod Knowing
pub mod Tries
