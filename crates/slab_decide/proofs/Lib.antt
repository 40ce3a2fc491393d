pub mod Bridge
pub mod Kept
pub mod Room
pub mod FirstOpen
pub mod Allowing
pub mod Counted
