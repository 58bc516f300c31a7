pub mod SumLemmas
pub mod KeyedLemmas
pub mod PriceLemmas
pub mod ConstraintLemmas
pub mod EntryLemmas
pub mod MarkLemmas
pub mod TaskLemmas
pub mod StatementLemmas
