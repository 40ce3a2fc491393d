pub mod Certificates
pub mod Lines
pub mod Texts
pub mod Worked
pub mod Laws
