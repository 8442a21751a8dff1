pub mod Names
pub mod Partners
pub mod Verdict
