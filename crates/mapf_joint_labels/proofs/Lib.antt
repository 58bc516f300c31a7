pub mod RunLemmas
pub mod NeverLemmas
pub mod OrderLemmas
pub mod JointMarkLemmas
pub mod PairLemmas
pub mod TwoLemmas
