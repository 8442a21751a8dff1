pub mod Demand
pub mod Model
pub mod Listing
pub mod Steps
pub mod Walk
pub mod Walked
pub mod SignedPlans
