mod Gcd
mod Order
mod Extremes
mod Points
mod Fronts
mod Slopes
mod Touching
