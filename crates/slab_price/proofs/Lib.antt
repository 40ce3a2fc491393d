pub mod Groupings
pub mod Improving
pub mod Packs
