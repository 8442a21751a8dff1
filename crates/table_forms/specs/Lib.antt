pub mod Walk
pub mod Turns
pub mod Steps
pub mod Verdict
