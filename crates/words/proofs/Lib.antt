pub mod Pivots
pub mod FromWords
pub mod ReducedWords
