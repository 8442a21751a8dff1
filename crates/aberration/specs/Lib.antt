pub mod Less
pub mod Published
