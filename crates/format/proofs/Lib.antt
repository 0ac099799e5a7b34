pub mod Back
pub mod NumberLaws
pub mod Coordinates
pub mod WordLaws
