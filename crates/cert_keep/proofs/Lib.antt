pub mod Slabbing
pub mod Rebuilding
pub mod Gathering
pub mod Spelling
pub mod Meanings
pub mod Limited
