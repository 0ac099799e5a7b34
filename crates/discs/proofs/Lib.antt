mod Packed
mod Turns
mod Written
mod Zones
mod Halving
pub mod FloorLaws
pub mod PieceLaws
pub mod Totals
