pub mod Admission
pub mod Faults
pub mod Admitting
