pub mod FirstFit
pub mod Made
pub mod Plain
