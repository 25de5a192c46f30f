pub mod Access
pub mod Chains
pub mod Closures
pub mod Effects
pub mod Memory
pub mod Operations
pub mod Refusals
pub mod Reuse
