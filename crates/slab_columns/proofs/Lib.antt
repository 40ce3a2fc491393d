pub mod Places
pub mod FlatColumns
pub mod Growth
