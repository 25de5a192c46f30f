pub mod Addresses
pub mod Lists
pub mod Orders
pub mod Rows
