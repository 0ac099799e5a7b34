pub mod Cells
pub mod Darts
pub mod LowDiscrepancy
pub mod Passes
pub mod Placed
pub mod Random
pub mod Sites
