pub mod Pasted
pub mod Records
