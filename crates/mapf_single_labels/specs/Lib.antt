pub mod Ranges
pub mod KeyedPrices
pub mod PriceTables
pub mod TaskConstraints
pub mod ConstraintIndex
pub mod Tasks
pub mod Marks
