pub mod Judged
pub mod Judging
pub mod Accepted
