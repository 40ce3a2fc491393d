pub mod Places
pub mod Ranges
pub mod PutBefore
pub mod Counts
pub mod Loads
pub mod Filled
pub mod Closed
