pub mod Sums
pub mod Tracing
pub mod WalkStart
pub mod Stepping
