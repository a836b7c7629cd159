pub mod ShortForms
pub mod ShortFronts
pub mod ShortPieces
pub mod ShortReading
