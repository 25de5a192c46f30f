pub mod Reusing
