pub mod Opening
pub mod MadeLimits
pub mod Placed
pub mod Started
pub mod Halves
pub mod MadePlain
