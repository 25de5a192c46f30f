pub mod Chains
pub mod Counts
pub mod Fields
pub mod Keys
pub mod Lists
pub mod Reach
pub mod Theory
pub mod Ways
