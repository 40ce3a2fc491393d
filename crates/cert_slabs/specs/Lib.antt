pub mod Answers
pub mod Roster
pub mod Drafts
pub mod Tallies
