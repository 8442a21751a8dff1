pub mod WordTable
pub mod Walk
