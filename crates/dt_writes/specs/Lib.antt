pub mod Apart
pub mod FileRecords
pub mod KeyOrder
pub mod Laws
pub mod OwnWrites
