pub mod Assembling
pub mod Bites
pub mod Core
pub mod History
pub mod Law
pub mod Ledger
pub mod Readings
pub mod Schedule
