pub mod Marks
pub mod Distances
pub mod Wave
pub mod Tables
pub mod Search
