pub mod Folding
pub mod Widths
