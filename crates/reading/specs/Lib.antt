pub mod Answers
pub mod Steps
pub mod Columns
pub mod Patterns
pub mod Entries
pub mod AnswerLaws
pub mod Filling
pub mod Order
