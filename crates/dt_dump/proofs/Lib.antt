pub mod Dumped
pub mod Endings
pub mod ReadRecords
pub mod Texts
