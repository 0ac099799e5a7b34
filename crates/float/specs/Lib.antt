pub mod Ops
pub mod Root
pub mod Order
pub mod Whole
pub mod Total
pub mod Laws
pub mod Cases
