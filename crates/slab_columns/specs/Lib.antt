pub mod Pool
pub mod Flat
pub mod Index
pub mod Recency
pub mod Kept
