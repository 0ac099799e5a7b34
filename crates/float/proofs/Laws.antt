pub mod Minimum
pub mod Nearest
pub mod Order
