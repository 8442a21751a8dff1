pub mod Made
pub mod LentWords
