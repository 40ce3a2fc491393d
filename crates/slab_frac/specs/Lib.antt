pub mod Fraction
pub mod Lowest
pub mod Odd
pub mod Scaled
