pub mod Copied
pub mod Entries
