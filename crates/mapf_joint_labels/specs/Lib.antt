pub mod Runs
pub mod Never
pub mod JointOrder
pub mod JointMarks
pub mod Pairs
pub mod Two
