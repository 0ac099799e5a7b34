pub mod Ends
pub mod Field
pub mod Kept
pub mod Moves
pub mod Notes
pub mod Others
pub mod Scatter
