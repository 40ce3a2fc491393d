pub mod Openings
pub mod Made
pub mod Counting
pub mod Swept
pub mod Questions
pub mod Placing
pub mod Progress
