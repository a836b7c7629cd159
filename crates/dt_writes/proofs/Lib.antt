mod Filling
pub mod KeyOrder
mod Listing
pub mod WriteOrder
pub mod WritesOfRecords
