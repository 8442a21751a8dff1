pub mod Counting
pub mod Output
pub mod OutputLaws
