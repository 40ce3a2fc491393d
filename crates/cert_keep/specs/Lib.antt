pub mod Reads
pub mod Building
pub mod Rebuilt
pub mod Gathering
pub mod Cuts
pub mod Certs
pub mod Next
pub mod Parts
