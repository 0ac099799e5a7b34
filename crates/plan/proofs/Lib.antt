pub mod Refusals
pub mod CallLaws
pub mod Zoned
