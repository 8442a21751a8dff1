pub mod Unused
pub mod Swaps
pub mod Unswapped
pub mod OtherNames
pub mod LoadLaws
pub mod Taken
