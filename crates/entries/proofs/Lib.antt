mod Sums
mod WalkStates
mod Moves
