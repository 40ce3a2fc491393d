pub mod Trimming
pub mod Levels
pub mod Walks
pub mod Laws
pub mod Certificates
pub mod Reads
