pub mod Put
pub mod Places
