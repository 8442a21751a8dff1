pub mod Matching
pub mod Deciding
pub mod Settling
pub mod Parts
