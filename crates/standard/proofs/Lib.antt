pub mod Basics
pub mod FromTable
