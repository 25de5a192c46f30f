pub mod Arranging
mod Rising
