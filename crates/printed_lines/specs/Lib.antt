pub mod Text
pub mod Listed
pub mod Adding
