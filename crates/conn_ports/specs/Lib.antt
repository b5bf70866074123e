pub mod Fresh
pub mod Given
pub mod Link
pub mod Memory
pub mod Returned
pub mod Wire
