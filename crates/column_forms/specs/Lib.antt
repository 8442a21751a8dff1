pub mod Tables
pub mod TableLaws
pub mod Basis
pub mod Walk
pub mod MaskWalk
pub mod Allowing
