pub mod Others
pub mod Placed
pub mod Each
