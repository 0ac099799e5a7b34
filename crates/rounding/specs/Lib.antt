-- exact numbers, and errors that chain
pub mod Signed
pub mod Integers
pub mod Relative
-- a float as an exact number, and one rounding
pub mod Value
pub mod Comparison
pub mod Rounded
-- the operations
pub mod Operations
pub mod Errors
pub mod Bounds
pub mod Signs
pub mod Selection
pub mod Exactness
pub mod Root
pub mod Sqrt
-- whole numbers
pub mod Whole
pub mod Casts
-- what the packer's claims cite
pub mod Distance
pub mod Lengths
pub mod Spacing
pub mod Cells
pub mod Row
pub mod Steps
pub mod Lattice
pub mod Shares
