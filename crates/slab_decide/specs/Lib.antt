pub mod Decided
pub mod Nodes
pub mod Kept
pub mod OpenAsks
pub mod Whole
