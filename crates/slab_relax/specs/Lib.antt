pub mod Nodes
pub mod Tallies
pub mod PoolCovers
pub mod AtNodes
pub mod Rows
pub mod Duals
pub mod Masters
pub mod Rounds
