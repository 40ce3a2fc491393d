pub mod Lines
pub mod Places
pub mod OnTheWay
pub mod Whole
pub mod Versions
