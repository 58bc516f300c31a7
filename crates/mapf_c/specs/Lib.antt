pub mod Faults
pub mod Answers
pub mod Checks
pub mod Solves
pub mod Plans
pub mod Kept
pub mod Dispatchers
