pub mod Call
pub mod CallLaws
pub mod Cases
pub mod Leaves
pub mod Room
pub mod Trials
