pub mod OfColumns
pub mod OfRuns
pub mod OfWords
