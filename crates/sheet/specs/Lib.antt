pub mod Sheet
pub mod Steps
pub mod Back
pub mod Laws
pub mod Examples
