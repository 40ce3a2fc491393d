mod Walking
mod Moves
mod Keeping
mod Certified
