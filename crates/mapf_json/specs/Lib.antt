pub mod Objects
pub mod Answers
pub mod Faults
pub mod Written
