pub mod LineLemmas
pub mod WordLemmas
pub mod NumberLemmas
pub mod RowLemmas
pub mod MapLemmas
pub mod DecimalLemmas
pub mod ScenarioLemmas
pub mod ScenarioLaws
