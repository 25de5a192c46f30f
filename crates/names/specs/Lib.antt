pub mod Headings
pub mod Listings
pub mod Names
pub mod Reports
pub mod Text
