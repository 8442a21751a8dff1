pub mod Inner
pub mod Searching
pub mod Walking
pub mod Finding
pub mod MasksByKind
pub mod Books
