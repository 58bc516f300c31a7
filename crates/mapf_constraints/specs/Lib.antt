pub mod BarSets
pub mod Chains
