pub mod Drawing
pub mod Marks
pub mod DrawingLaws
pub mod SwapTurns
pub mod Answers
