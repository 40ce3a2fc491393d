pub mod Words
pub mod Fronts
pub mod Lines
pub mod NumberTexts
pub mod LineTexts
pub mod Buffers
pub mod Feeds
