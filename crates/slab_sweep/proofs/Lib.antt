pub mod Heads
pub mod Kept
pub mod Openings
pub mod Counting
pub mod Plainly
pub mod Questions
pub mod Progress
