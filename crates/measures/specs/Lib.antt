pub mod Ready
pub mod Measured
pub mod ResolutionAnswers
