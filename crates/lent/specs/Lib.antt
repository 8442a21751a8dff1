pub mod Copied
pub mod Lending
pub mod Lends
