pub mod Listings
pub mod Digits
