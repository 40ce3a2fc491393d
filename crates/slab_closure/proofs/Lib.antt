pub mod Closed
pub mod Labels
pub mod Squares
pub mod Joins
pub mod Parts
pub mod Starts
pub mod Counting
pub mod GroupSizes
