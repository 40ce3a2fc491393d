pub mod Answers
pub mod Roots
