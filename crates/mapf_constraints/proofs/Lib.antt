pub mod BarLemmas
pub mod ChainLemmas
