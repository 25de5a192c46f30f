pub mod Chains
pub mod Counts
mod Examples
pub mod Fields
pub mod Joined
pub mod Keys
pub mod Lists
pub mod Orders
pub mod Reach
pub mod Theory
pub mod Ways
