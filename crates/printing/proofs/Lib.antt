pub mod Entries
pub mod Printed
