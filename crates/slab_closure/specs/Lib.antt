pub mod Cells
pub mod Relations
pub mod Changes
pub mod Labels
pub mod Sizes
