pub mod Steps
pub mod Files
pub mod Pieces
pub mod ByName
pub mod States
